-- The fresh disk evaluated; what is laid where; the blocks as they come, counted; the fresh disk slot by slot and record by record.
pub mod Examples
pub mod LaidLaws
pub mod NumberedLaws
pub mod Counting
pub mod Copied
