-- What the crate's private contracts alone cite: how values are searched and split.
pub mod Finding
pub mod Splitting
