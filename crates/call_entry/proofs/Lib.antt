-- Laws of the entry that a write leaves: of the block that a place is given, of how code looks for it, of entries that share
-- their first bytes, and of the entry that grows.
pub mod AllocLaws
pub mod TogetherLaws
pub mod HeadLaws
pub mod GrowLaws
