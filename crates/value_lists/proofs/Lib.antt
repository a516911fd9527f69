pub mod EssenceLemmas
pub mod ExtractLemmas
pub mod NosniffLemmas
pub mod SplitLemmas
