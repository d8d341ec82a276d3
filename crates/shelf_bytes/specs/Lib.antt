-- The shelf as 64 bytes.
pub mod Layout
pub mod RoundTrip
