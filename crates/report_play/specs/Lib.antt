pub mod Plays
pub mod Private
