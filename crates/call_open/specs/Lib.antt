-- Open and close.
pub mod Open
pub mod CodeFound
