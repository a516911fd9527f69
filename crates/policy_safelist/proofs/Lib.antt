pub mod ForbiddenLemmas
pub mod RangeLemmas
pub mod SetLemmas
