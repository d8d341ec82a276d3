-- What the copy at the seam leaves.
pub mod SeamFresh
