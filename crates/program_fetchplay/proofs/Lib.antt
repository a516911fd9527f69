pub mod Computed
pub mod ProgramLemmas
