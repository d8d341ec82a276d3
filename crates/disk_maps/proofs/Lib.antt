-- What the code rests on: the held blocks as inspection goes on.
pub mod HeldLaws
