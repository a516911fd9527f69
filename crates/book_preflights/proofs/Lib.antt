pub mod CacheLaws
pub mod KeyLaws
pub mod KeyLemmas
pub mod ListLemmas
pub mod MarkLemmas
pub mod PackLemmas
pub mod TeachLemmas
pub mod WalkLemmas
