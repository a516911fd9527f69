-- What the crate's private contracts alone cite: digits that are compared by their numbers.
pub mod Zeros
