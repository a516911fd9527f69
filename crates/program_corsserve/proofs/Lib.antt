pub mod ConnectionLemmas
pub mod ProgramLemmas
