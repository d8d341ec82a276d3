-- Laws of paragraphs.
pub mod MostLaws
pub mod CandidateLaws
pub mod Examples
