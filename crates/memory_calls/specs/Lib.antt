-- The memory calls 53 to 58 over a table of pieces and regions.
pub mod Table
pub mod Answer
pub mod Calls
pub mod CodeReady
