-- The order of a fresh disk's entries.
pub mod Order
pub mod CodeKeys
