pub mod Calls
pub mod Escapes
pub mod Kept
pub mod Laws
pub mod Lengths
pub mod Lines
pub mod Words
