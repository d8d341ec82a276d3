-- Laws of what is lent, of what stands next, of windows on a script, and headers evaluated.
pub mod LentLaws
pub mod ScriptLaws
pub mod WindowLaws
pub mod Examples
