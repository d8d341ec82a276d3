-- The header of a CMD file.
pub mod Header
