-- The held blocks while inspection goes on.
pub mod CodeHeldBelow
