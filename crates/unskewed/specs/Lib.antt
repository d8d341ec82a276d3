-- The unskewed volume.
pub mod Unskewed
