-- A shelf at the seam, as code learns it, and from volume to volume.
pub mod ShelfLaws
pub mod Examples
