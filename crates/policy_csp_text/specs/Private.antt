-- What the crate's private contracts alone cite: how directives are collected.
pub mod Collecting
