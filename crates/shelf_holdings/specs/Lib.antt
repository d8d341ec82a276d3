-- What a volume holds: files, entries, records present, blocks held and free, waste.
pub mod Holdings
pub mod Sums
pub mod CodeEntries
