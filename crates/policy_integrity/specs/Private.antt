-- What the crate's private contracts alone cite: how hash expressions are collected.
pub mod Collecting
