-- What the crate's private contracts alone cite: how it holds what the files beside this one say.
pub mod Coming
pub mod Places
pub mod Written
