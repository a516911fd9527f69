pub mod DigitLemmas
pub mod EscapeLemmas
pub mod ItemLemmas
pub mod KeptLemmas
pub mod LengthLemmas
