-- What code keeps while it puts the entries in order.
pub mod CodeKept
