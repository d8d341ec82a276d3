-- What a reading makes of the shelf, as code learns it, and evaluated.
pub mod ReadingLaws
pub mod ReadingsLaws
pub mod Examples
