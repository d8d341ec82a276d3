-- The call that makes a file.
pub mod Make
pub mod CodeNewFile
