-- Size.
pub mod Size
pub mod CodeMeasure
