-- Laws of the volume: of slots and records laid into it, of the slot that is found, of runs of entries, of names, of entries and of their maps.
pub mod DirectoryLaws
pub mod FindLaws
pub mod RunLaws
pub mod NameLaws
pub mod EntryLaws
pub mod MapLaws
pub mod Examples
