-- What the crate's private contracts alone cite: the directives that compiled policies keep, and hash-sources in a set.
pub mod Hashes
pub mod Kept
