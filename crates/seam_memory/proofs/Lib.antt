-- What the seam of the memory calls and of load rests on.
pub mod LoadLaws
