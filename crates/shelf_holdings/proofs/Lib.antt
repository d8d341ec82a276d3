-- The records present and the held blocks entry by entry, and that the figures add up.
pub mod PlaceLaws
pub mod RecordLaws
pub mod BlockLaws
pub mod WasteLaws
pub mod SlotLaws
pub mod Examples
