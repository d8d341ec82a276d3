-- A record of a file, as the file calls show it.
pub mod Shown
