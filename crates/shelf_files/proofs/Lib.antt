-- Laws of the tree, and of a walk in it.
pub mod TreeLaws
pub mod WalkLaws
