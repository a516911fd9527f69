pub mod DocumentLemmas
pub mod LawLemmas
pub mod OnceLemmas
pub mod OwnLemmas
pub mod ReadyLemmas
pub mod TapeRunLemmas
pub mod VerdictLemmas
