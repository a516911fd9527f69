pub mod Readers
pub mod CutLaws
pub mod Standings
pub mod Sessions
pub mod Feeding
pub mod Asking
pub mod Private
