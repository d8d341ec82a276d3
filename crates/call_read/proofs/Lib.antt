-- Laws of the reads: what the plan of one is.
pub mod ReadLaws
