pub mod Answers
pub mod Checks
pub mod Policies
pub mod Preflights
pub mod Requested
pub mod Words
