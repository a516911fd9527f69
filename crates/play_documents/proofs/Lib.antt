pub mod PartLemmas
pub mod ScriptLemmas
pub mod RunLemmas
mod Words
