pub mod AloneLemmas
pub mod BlindLemmas
pub mod HistoryLemmas
pub mod OwnLemmas
pub mod PlayLemmas
