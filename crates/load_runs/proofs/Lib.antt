-- Spans that 66 bytes can carry, calls over tables that were laid and read again, runs, and each promise over bytes; and examples.
pub mod ShortLaws
pub mod LaysLaws
pub mod TidyLaws
pub mod RunsHold
pub mod AtSeamHolds
pub mod AgainHolds
pub mod Examples
