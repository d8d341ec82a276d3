-- Why a slot is bad, and a file's line, as exported calls give them.
pub mod Fault
pub mod File
