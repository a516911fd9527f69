pub mod Differences
pub mod Legality
pub mod Private
pub mod Tapes
