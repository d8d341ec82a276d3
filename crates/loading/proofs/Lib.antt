-- Laws of the base page, of the laid memory, and of the call.
pub mod PageLaws
pub mod LaidLaws
pub mod LoadLaws
pub mod Examples
