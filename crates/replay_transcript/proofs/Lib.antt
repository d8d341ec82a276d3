-- Laws of hex, of lines and of records.
pub mod HexLaws
pub mod RecordLaws
