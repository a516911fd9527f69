pub mod AppendLemmas
pub mod EscapeLemmas
pub mod LineLemmas
pub mod WriteLemmas
