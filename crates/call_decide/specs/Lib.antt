-- The writes.
pub mod Write
pub mod CodePlan
