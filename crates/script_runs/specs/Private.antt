-- What the crate's private contracts alone cite.
pub mod Lasts
