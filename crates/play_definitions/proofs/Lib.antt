pub mod CallLemmas
pub mod KeepLemmas
pub mod LostLemmas
pub mod WorldLemmas
mod Words
