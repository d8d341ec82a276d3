-- Laws of the contents, and examples.
pub mod ContentsLaws
pub mod Examples
