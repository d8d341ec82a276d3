-- The script of a replay.
pub mod Layout
pub mod Lends
pub mod Script
pub mod CodeNext
pub mod CodeWindow
