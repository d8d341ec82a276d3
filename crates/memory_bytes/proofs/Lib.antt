-- Laws of the bytes of table and control block, of a call over them, and the round trip; and examples.
pub mod BytesLaws
pub mod OverLaws
pub mod RoundTripHolds
pub mod Examples
