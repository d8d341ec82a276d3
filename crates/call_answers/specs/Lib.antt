-- "Numbers of refusal, in order of test", and the answers.
pub mod Refusal
pub mod Answer
