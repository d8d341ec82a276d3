-- The fresh disk: what is laid into its slots and its blocks.
pub mod Copy
