mod StripLemmas
pub mod NameLemmas
