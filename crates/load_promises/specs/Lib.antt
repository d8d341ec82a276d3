-- The promises of load, in the reader's words; proofs/ proves each.
pub mod Promises
