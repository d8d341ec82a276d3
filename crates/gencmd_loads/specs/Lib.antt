-- "The file written loads with those bytes": what load reads in its header, and what the memory has afterwards.
pub mod Loads
