-- A volume put on a shelf, as the exported call does it.
pub mod Shelf
