-- What the program says, whole and by examples.
pub mod SaidLaws
