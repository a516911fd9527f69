pub mod Grammar
pub mod Matching
pub mod Paths
pub mod Private
pub mod Sources
