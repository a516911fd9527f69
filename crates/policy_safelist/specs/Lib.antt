pub mod Forbidden
pub mod Guards
pub mod Names
pub mod Ranges
pub mod Safelisted
pub mod Sets
pub mod UnsafeNames
