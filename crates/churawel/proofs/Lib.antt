-- States that a drive's bytes carry from call to call, that what a fault tells is true, and the bytes of a fault, a call and a cut
-- evaluated.
pub mod LastingLaws
pub mod CallsLast
pub mod FaithfulHolds
pub mod ExplainsHolds
pub mod Examples
pub mod CallExamples
