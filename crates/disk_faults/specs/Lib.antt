-- Why a slot is bad.
pub mod Faults
pub mod CodeEntryAt
pub mod CodeLadder
