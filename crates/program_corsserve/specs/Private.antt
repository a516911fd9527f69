-- What the crate's private contracts alone cite: the steps to a verdict.
pub mod Nexts
pub mod Notes
