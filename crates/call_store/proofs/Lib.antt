-- Laws of a write's data: of a block that is filled with zeros beside a record, or is not.
pub mod FillLaws
