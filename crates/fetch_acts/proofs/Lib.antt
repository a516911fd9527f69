pub mod ReadingLemmas
pub mod TraceLemmas
pub mod WithinLemmas
