-- Laws of lists laid one behind the other: what a loop that lays them rests on.
pub mod JoinedLaws
