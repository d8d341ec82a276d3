-- The answer of a copy fits, and what the copy leaves is what is said of it at the seam.
pub mod FreshLaws
pub mod Examples
