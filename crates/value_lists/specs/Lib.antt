pub mod Blocking
pub mod Essence
pub mod Extract
pub mod JavaScript
pub mod Nosniff
pub mod Private
pub mod Split
