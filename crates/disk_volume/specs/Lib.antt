-- "Volume and entry" of 01, and what inspection says of names.
pub mod Fields
pub mod Name
pub mod Entry
pub mod Directory
pub mod Record
pub mod CodeLent
pub mod CodeRun
