-- Laws of reading a file to its end, and of its image.
pub mod RecordLaws
pub mod ReadLaws
pub mod ImageLaws
pub mod FrontLaws
