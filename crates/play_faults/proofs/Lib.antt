pub mod FetchLemmas
pub mod NumberLemmas
pub mod RunLemmas
pub mod TraceLemmas
