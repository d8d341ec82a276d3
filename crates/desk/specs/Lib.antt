-- The edition desk: its answers, a file's records as the file calls show and write them, the replacement, and its stores.
pub mod Answer
pub mod Records
pub mod Replace
pub mod Stores
pub mod CodeDesk
