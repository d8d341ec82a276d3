-- Laws of eight-inch disks, of the geometry, of a block from D to T-1, and of the block shift; geometries evaluated.
pub mod EightInchLaws
pub mod GeometryLaws
pub mod InsideLaws
pub mod ShiftLaws
pub mod MostLaws
pub mod Examples
