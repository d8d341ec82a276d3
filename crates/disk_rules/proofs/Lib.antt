-- What theorems cite: good slots, twins, accepted directories, the blocks that entries name.
pub mod GoodLaws
pub mod TwinLaws
pub mod AcceptedLaws
pub mod NamedLaws
pub mod Examples
