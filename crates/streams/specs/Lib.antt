-- How many bytes of a buffer were read into.
pub mod Counts
