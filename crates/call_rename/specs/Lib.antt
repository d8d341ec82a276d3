-- The calls that give a file another name and other attributes.
pub mod Rename
pub mod CodeNewName
