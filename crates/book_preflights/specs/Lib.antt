pub mod Cache
pub mod Entries
pub mod Keys
pub mod Laws
pub mod Private
pub mod Teaching
