-- Laws of a write's tests, and of the slot, the block and the entry that it decides on.
pub mod WriteLaws
