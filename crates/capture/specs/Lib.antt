pub mod Intakes
pub mod Records
