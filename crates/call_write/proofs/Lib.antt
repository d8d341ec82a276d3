-- Laws of what is decided, and of what stands after a write.
pub mod DecidedLaws
pub mod AfterLaws
