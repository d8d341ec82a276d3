-- Laws of the shelf, and why the order of its volumes makes no difference.
pub mod ShelfLaws
pub mod OrderLaws
pub mod Examples
