pub mod Codes
pub mod Crossing
pub mod Handle
pub mod Lending
pub mod Things
pub mod Words
