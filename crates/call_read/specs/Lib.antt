-- The reads: their tests and bytes, and the plan of one.
pub mod Read
pub mod CodePlan
