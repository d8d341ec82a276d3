-- What is read on the unskewed volume, and what is stored.
pub mod Logical
pub mod Seen
pub mod Asked
pub mod Stored
pub mod Examples
