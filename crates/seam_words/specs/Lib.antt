-- An answer as one number.
pub mod Answered
