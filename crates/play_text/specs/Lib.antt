pub mod Failures
pub mod Plain
pub mod Private
pub mod Summary
pub mod Text
pub mod Words
pub mod Writes
