pub mod Bytes
pub mod Lists
pub mod Options
pub mod Tests
