-- What the crate's private contracts alone cite: the command that reads the words.
pub mod Command
