pub mod DocumentLemmas
pub mod EmbedLemmas
pub mod LastLemmas
pub mod PlayLemmas
pub mod ScriptLemmas
