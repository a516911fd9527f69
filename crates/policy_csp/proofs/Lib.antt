pub mod AskedLemmas
pub mod KeptLemmas
pub mod LawLemmas
pub mod HashLemmas
