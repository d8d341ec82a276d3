-- The edition desk at the seam.
pub mod Sigla
