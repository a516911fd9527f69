pub mod MatchingLemmas
pub mod TokenLemmas
