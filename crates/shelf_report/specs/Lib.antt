-- The text of a shelf's figures, and the room that it needs.
pub mod Report
pub mod Room
