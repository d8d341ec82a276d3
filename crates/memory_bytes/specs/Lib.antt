-- The memory table and the memory control block as bytes.
pub mod TableBytes
pub mod Over
pub mod RoundTrip
