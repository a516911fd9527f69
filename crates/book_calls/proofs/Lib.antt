pub mod EntryLemmas
pub mod PastLemmas
pub mod PastsLemmas
pub mod SoloLemmas
