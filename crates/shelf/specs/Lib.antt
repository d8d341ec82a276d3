-- What one reading of standard input makes of the shelf, and all of them.
pub mod Reading
pub mod Readings
