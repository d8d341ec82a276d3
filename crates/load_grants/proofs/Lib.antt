-- Laws of the grants.
pub mod GrantsLaws
pub mod Examples
