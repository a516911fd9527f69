pub mod Private
pub mod Words
