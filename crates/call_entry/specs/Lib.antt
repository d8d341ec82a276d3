-- The entry that a write leaves: the block that a place is given, and the entry before and after it grows.
pub mod Alloc
pub mod Grown
