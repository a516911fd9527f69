-- What the crate's private contracts alone cite: where source expressions stand in a text, and how paths are walked.
pub mod Places
pub mod Walking
