-- What the crate's private contracts alone cite: how the logic stores a script, and that its depth falls inward.
pub mod Coding
pub mod Nesting
