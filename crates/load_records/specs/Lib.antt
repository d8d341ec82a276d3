-- A file's records, its size and its image, as the file calls show them.
pub mod Records
pub mod CodeReading
