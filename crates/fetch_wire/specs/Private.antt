-- What the crate's private contracts alone cite: what is found of an answer before the wire goes on or is closed.
pub mod Reads
