-- What the program says on standard error.
pub mod Said
