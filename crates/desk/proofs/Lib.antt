-- Laws of the desk: records by the file calls, the loops over records, and the call by what its parts answer.
pub mod RecordLaws
pub mod LoopLaws
pub mod ReplaceLaws
