-- The tree of the files passed so far.
pub mod CodeTree
