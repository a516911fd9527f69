pub mod DigitLemmas
pub mod LowerLemmas
pub mod MimeLemmas
pub mod NumberLemmas
pub mod TrimLemmas
pub mod SpaceLemmas
