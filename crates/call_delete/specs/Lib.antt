-- Delete: its tests, and the blocks that it frees.
pub mod Delete
pub mod Freed
