pub mod Arguments
pub mod Counts
pub mod Lines
pub mod Reports
