-- Laws of load over bytes.
pub mod LoadOverLaws
