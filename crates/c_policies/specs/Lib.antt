pub mod Answers
pub mod Checks
pub mod Headers
pub mod Numbers
pub mod Preflights
