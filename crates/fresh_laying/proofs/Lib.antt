-- The fresh disk as code lays it out is the fresh disk; what code asks of the entries in order, and keeps while it moves blocks; loops that
-- begin anywhere.
pub mod FoldFrom
pub mod LayingLaws
pub mod KeptLaws
pub mod MoveLaws
