pub mod RecordLaws
pub mod Intakes
