-- Sigla by column over runs; wrong desks; a mixed run as an example.
pub mod ColumnsHold
pub mod MixedHolds
pub mod ColumnsAtSeamHold
pub mod MixedAtSeamHolds
pub mod WrongDesksFail
pub mod Examples
