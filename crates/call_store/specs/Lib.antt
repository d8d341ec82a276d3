-- The stores of a write.
pub mod Stores
