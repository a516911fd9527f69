pub mod CollectingLemmas
pub mod CountLemmas
pub mod NameLemmas
pub mod WordLemmas
