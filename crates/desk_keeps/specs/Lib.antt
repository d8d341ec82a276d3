-- What one replacement of the desk keeps, whole or cut.
pub mod Sigla
