-- "Control block and position."
pub mod Fcb
