-- The proofs of load's promises.
pub mod Outside
pub mod Theorem
pub mod NoRoomTheorem
pub mod Examples
