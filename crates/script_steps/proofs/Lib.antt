pub mod StepLemmas
pub mod ValidLemmas
