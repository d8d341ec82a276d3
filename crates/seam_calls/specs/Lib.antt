-- What log-in, a call and a cut leave at the seam, and what the seam goes by.
pub mod Seam
pub mod CodeSeam
pub mod CodeLent
