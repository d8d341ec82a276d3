-- Laws of the header.
pub mod HeaderLaws
pub mod Examples
