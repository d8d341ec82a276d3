-- Laws of the groups: how far they reach, what measuring tells, and their bytes as they are laid.
pub mod ListLaws
pub mod ReachLaws
pub mod EnoughLaws
pub mod MeasureLaws
pub mod LayingLaws
