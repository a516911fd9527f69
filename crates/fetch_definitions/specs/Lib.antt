pub mod Fetch
pub mod HttpFetch
pub mod MainFetch
pub mod PreflightFetch
pub mod Then
pub mod Words
