-- What the code rests on: marks.
pub mod MarkLaws
