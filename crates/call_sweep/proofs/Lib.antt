-- Laws of the edits that a sweep makes, and of read-only entries sought from the first entry on.
pub mod EditLaws
pub mod ReadOnlyLaws
