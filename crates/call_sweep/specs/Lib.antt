-- A change made to the entries that it is meant for: slot by slot as the paper says it, and record by record as code makes it.
pub mod Sweep
pub mod CodeEdit
