-- What the crate's private contracts alone cite: how it holds and finds what the files beside this one say.
pub mod Index
pub mod Pieces
pub mod Terms
