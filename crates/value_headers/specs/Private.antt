-- What the crate's private contracts alone cite: how headers are found, joined and packed.
pub mod Joining
pub mod Packs
pub mod Places
