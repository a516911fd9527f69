pub mod Policies
pub mod Walks
pub mod Private
