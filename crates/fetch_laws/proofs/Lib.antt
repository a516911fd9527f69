pub mod AlikeLemmas
pub mod ApartLemmas
pub mod BlindLemmas
pub mod OwnLemmas
pub mod RuleLemmas
