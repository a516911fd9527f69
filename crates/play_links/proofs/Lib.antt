pub mod FaultLemmas
pub mod OverLemmas
pub mod PlayLemmas
pub mod StandingLemmas
