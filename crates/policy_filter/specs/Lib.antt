pub mod Blocks
pub mod Exposed
pub mod Filtered
pub mod Laws
pub mod Names
pub mod Private
pub mod Views
