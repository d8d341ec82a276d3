-- Laws of a call that is lent the script's bytes, a run of turns, and transcripts evaluated.
pub mod PlayLaws
pub mod TurnsHold
pub mod Examples
