pub mod LineLemmas
pub mod ListenLemmas
pub mod PlaceLemmas
pub mod ReplyLemmas
