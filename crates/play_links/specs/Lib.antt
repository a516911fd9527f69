pub mod Faults
pub mod Links
pub mod Refused
pub mod Unseated
