-- The lines of a transcript.
pub mod Hex
pub mod Lines
pub mod Records
