-- The numbers of the calls, evaluated.
pub mod Examples
