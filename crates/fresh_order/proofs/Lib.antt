-- The order: numbers entered in rising order, and what the order of the entries is.
pub mod EnteredLaws
pub mod OrderLaws
