-- "Inspection at log-in."
pub mod GoodSlot
pub mod Named
