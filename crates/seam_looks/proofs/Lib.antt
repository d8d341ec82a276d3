-- What is told of a bad slot and of a file, as code learns it.
pub mod FaultLaws
pub mod FileLaws
