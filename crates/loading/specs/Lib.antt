-- Function 59: what the memory holds afterwards, the base page, and the call.
pub mod Page
pub mod Laid
pub mod Load
pub mod CodeLoad
