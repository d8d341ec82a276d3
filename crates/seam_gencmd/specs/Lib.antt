-- A hex text made a CMD file, as an exported call does it.
pub mod Gencmd
