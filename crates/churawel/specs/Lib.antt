-- That the drive's bytes carry the state from call to call, and that what a fault tells is true.
pub mod Faithful
pub mod Explains
