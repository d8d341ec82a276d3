-- Laws of the listing, how long its lines can be, and that it fits.
pub mod ListingLaws
pub mod LineLaws
pub mod RoomLaws
