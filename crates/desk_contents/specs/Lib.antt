-- The contents of a collation file.
pub mod Contents
