-- Laws of sums.
pub mod SumLaws
