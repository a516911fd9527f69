pub mod Audits
pub mod Plays
pub mod Reports
