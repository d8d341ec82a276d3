-- Sums over a run of numbers.
pub mod Sum
