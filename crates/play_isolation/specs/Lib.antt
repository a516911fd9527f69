pub mod Alone
pub mod Apart
pub mod Calls
pub mod Isolated
pub mod Laws
pub mod Words
