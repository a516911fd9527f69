pub mod Laws
pub mod Preflight
pub mod Verdict
pub mod Words
