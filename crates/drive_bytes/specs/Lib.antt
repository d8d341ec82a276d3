-- The drive's state as bytes.
pub mod Layout
pub mod RoundTrip
pub mod CodeLaid
