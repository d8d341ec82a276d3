-- The paper's examples, evaluated: scripts of calls, the bytes that they are written with, the proved table, more scripts for
-- what the table doesn't touch (every byte of a control block, files of several entries, what a search finds, the order of
-- refusals), and scripts for the requests of 02: names that can't be typed, function 40, a file's blocks, several records a
-- call, what each call stores, block numbers of two bytes.
pub mod Script
pub mod Samples
pub mod Table
pub mod More
pub mod Fcb
pub mod Entries
pub mod Finding
pub mod Refusals
pub mod Typing
pub mod ZeroFill
pub mod Together
pub mod Several
pub mod Stores
pub mod Wide
