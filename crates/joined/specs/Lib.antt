-- Lists of bytes laid one behind the other.
pub mod Joined
