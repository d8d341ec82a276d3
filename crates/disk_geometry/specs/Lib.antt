-- The geometry of 01's "Volume and entry", the eight-inch disks of request (i), and the block shift of the table in 000.
pub mod EightInch
pub mod Geometry
pub mod Shift
pub mod CodeMost
