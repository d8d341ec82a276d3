-- Entries that match and name a block; why delete frees their blocks, and no other.
pub mod MatchLaws
pub mod FreedHolds
