-- What the crate's private contracts alone cite: where a step leads, and how calls on a reader went.
pub mod Endings
pub mod Pieces
pub mod Steps
