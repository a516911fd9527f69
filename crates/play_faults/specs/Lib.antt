pub mod Failures
pub mod Laws
pub mod Numbers
pub mod Places
