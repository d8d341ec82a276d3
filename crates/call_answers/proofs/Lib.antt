-- Laws of the ladder of tests, and of the answers.
pub mod Ladder
pub mod AnswerLaws
