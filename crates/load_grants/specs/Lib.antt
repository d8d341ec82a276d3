-- What the groups of a CMD file are granted.
pub mod Grants
