-- The law of a record read.
pub mod ShowLaws
