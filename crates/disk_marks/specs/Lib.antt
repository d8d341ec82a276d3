-- The marks of the slots passed so far.
pub mod CodeMarks
