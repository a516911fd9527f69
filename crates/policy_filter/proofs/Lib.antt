pub mod CollectingLemmas
pub mod ExposureLemmas
pub mod KeepingLemmas
pub mod ViewLemmas
pub mod OwnViewLemmas
pub mod LawLemmas
pub mod ListedLemmas
