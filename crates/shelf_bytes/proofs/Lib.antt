-- Numbers laid one behind the other.
pub mod LayoutLaws
pub mod Examples
