-- What the crate's private contracts alone cite: the documents that were played so far.
pub mod SoFar
