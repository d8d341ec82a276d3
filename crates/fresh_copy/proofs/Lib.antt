-- The ways out of the copy, and the copy of a worn disk, evaluated.
pub mod CopyLaws
pub mod Examples
