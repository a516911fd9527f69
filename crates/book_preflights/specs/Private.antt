-- What the crate's private contracts alone cite: how it holds what the files beside this one say.
pub mod Marks
pub mod Packs
pub mod Partitions
