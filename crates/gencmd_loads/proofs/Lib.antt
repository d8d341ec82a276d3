-- The file that gencmd writes loads; and an example.
pub mod GroupLaws
pub mod HeaderSays
pub mod HeaderGood
pub mod HeaderHolds
pub mod ImageHas
pub mod GrantsExact
pub mod PutsLaws
pub mod MemoryHas
pub mod Theorem
pub mod Examples
