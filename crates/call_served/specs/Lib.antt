-- The calls that are served, and their numbers.
pub mod Calls
pub mod Asked
