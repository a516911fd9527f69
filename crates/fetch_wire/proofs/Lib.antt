pub mod WireLemmas
pub mod HeadLemmas
pub mod BodyLemmas
pub mod LawLemmas
