-- What a call of the script does, and the whole transcript.
pub mod Play
pub mod CodeCall
pub mod Transcript
pub mod Turns
