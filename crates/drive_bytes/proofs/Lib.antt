-- What is read of a drive's bytes, what is laid into them, the round trips, and what lent bytes take.
pub mod LoadLaws
pub mod WordLaws
pub mod RoundTripHolds
pub mod LentLaws
pub mod Examples
pub mod LayLaws
pub mod LaidLaws
