-- What holds of a fresh disk.
pub mod Holds
pub mod CallHolds
