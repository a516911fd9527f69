pub mod Conditions
pub mod Fetches
pub mod Loads
pub mod Referring
pub mod Scripts
