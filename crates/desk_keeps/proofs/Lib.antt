-- What one replacement keeps: the write of a record in its place, records rewritten one by one, the theorems, and an example.
pub mod InPlace
pub mod Rewritten
pub mod Directory
pub mod OneRecord
pub mod OneByOne
pub mod OfFiles
pub mod ReplacesHolds
pub mod BackHolds
pub mod Examples
