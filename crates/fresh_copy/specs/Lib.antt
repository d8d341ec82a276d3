-- The copy with its refusals.
pub mod FreshCopy
