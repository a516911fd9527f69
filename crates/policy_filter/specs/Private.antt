-- What the crate's private contracts alone cite: how names are collected and looked up, and which headers are kept.
pub mod Collecting
pub mod Exposing
pub mod Keeping
pub mod Listing
