-- Laws of names that can be typed.
pub mod TypingLaws
