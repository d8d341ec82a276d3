-- Search.
pub mod Search
pub mod CodeHit
