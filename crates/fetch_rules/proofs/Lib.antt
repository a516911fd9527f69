pub mod HeadLemmas
pub mod OpLemmas
pub mod UpgradingLemmas
