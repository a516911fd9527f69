-- What the crate's private contracts alone cite: how a text is stored.
pub mod Stores
