-- The groups of a text's lines: the byte at each address, how far a group reaches, and its paragraphs.
pub mod Groups
pub mod HighestByte
pub mod CodeMeasure
pub mod CodeLaying
