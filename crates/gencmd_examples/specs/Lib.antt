-- Examples of request (xiii), worked out by hand from 000's chapter 4 and evaluated by the definitions.
pub mod Texts
pub mod Examples
