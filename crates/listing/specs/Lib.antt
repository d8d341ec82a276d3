-- The text that the lister prints for a volume, and the room that it needs.
pub mod Listing
pub mod Room
