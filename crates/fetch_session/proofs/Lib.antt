pub mod EndingLemmas
pub mod CutLemmas
pub mod FeedingLemmas
