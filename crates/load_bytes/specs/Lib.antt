-- Load over the bytes of the memory table.
pub mod LoadOver
