-- Every report fits into its room.
pub mod RoomLaws
pub mod Examples
