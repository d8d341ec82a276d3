-- Laws of the state and of what calls leave.
pub mod StateLaws
pub mod OutcomeLaws
pub mod LentLaws
pub mod LogInLaws
pub mod CutLaws
pub mod EnoughLaws
pub mod JoinLaws
pub mod WriteLaws
pub mod RewriteLaws
pub mod SearchLaws
pub mod NamingLaws
pub mod ReadyLaws
