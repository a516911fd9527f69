pub mod LegalityLemmas
pub mod OpLemmas
pub mod TapeLemmas
pub mod CompareLemmas
