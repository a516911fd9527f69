pub mod BookLemmas
pub mod FieldLemmas
pub mod LineLemmas
