-- What the crate's private contracts alone cite: how the words of a line are read, and how far lines are read.
pub mod Cuts
pub mod Reading
