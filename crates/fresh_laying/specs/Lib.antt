-- The fresh disk as code lays it out.
pub mod CodeLaying
