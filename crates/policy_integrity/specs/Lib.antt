pub mod Metadata
pub mod Matching
pub mod Private
