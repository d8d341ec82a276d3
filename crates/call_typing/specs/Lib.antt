-- Names that can be typed.
pub mod Typing
