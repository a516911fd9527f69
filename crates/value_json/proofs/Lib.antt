mod NumberLemmas
mod TreeLemmas
mod FindLemmas
mod ItemLemmas
mod TakenLemmas
mod DocumentLemmas
pub mod ReadingLemmas
pub mod KeepsLemmas
