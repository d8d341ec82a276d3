-- The files of a volume, each by its lowest slot.
pub mod Files
pub mod Line
