-- What holds of the edition desk over runs: sigla by column after file calls, and runs that mix both; wrong desks that it shuts out.
pub mod Columns
pub mod Mixed
pub mod ColumnsAtSeam
pub mod MixedAtSeam
pub mod WrongDesks
