-- Laws of the edition desk at the seam, and examples.
pub mod Examples
pub mod SiglaLaws
