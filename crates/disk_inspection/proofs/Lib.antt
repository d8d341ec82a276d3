-- What the code rests on: a slot's tests.
pub mod SlotLaws
