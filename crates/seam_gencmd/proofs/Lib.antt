-- Answers at the seam, evaluated.
pub mod Examples
