pub mod Entries
pub mod Frames
pub mod Histories
pub mod Laws
pub mod OneHistory
pub mod Private
