pub mod TextLemmas
pub mod UrlLemmas
pub mod TargetLemmas
pub mod PolicyLemmas
pub mod StripLemmas
pub mod SetLemmas
