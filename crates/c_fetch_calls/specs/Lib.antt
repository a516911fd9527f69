pub mod Fetches
pub mod Inputs
pub mod Judging
pub mod Numbers
pub mod Parts
pub mod Private
pub mod Terms
