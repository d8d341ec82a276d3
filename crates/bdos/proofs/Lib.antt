-- A number that is not served, evaluated; and the door with a number of stores.
pub mod Examples
pub mod DoorLaws
