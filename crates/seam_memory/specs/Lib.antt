-- Load as an exported call leaves it.
pub mod Load
