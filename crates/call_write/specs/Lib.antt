-- What the write of a record leaves, as code leaves it.
pub mod Write
pub mod Rewrite
pub mod CodeWrite
