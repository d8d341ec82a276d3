-- Hex lines: the bytes that their digits spell, why a line is refused, and the lines of a text.
pub mod Digits
pub mod Refusal
pub mod Line
pub mod Lines
pub mod CodeWalk
