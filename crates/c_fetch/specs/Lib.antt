pub mod Setups
pub mod Settings
pub mod Asked
pub mod Beginning
pub mod Parts
pub mod Amounts
pub mod Terms
