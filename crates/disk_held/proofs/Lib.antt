-- What code and callers rest on: bits, the laws of holding and releasing, words by their set, counts, the lowest free block.
pub mod Bits
pub mod HoldLaws
pub mod WordsLaws
pub mod CountLaws
pub mod FreeLaws
pub mod Examples
