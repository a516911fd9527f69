-- What the crate's private contracts alone cite: what documents' runs come to.
pub mod Runs
