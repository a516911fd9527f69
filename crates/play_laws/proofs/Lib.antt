pub mod ExchangeLemmas
pub mod FollowsLemmas
pub mod HiddenLemmas
pub mod InOrderLemmas
pub mod MigrationLemmas
pub mod OnceLemmas
pub mod OrderLemmas
pub mod TranscriptLemmas
