pub mod ProgramLemmas
pub mod TextLemmas
