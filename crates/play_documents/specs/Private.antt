-- What private contracts alone cite: parts of a run.
pub mod Parts
