pub mod PieceLemmas
pub mod PlaceLemmas
pub mod PartLemmas
