pub mod CutLemmas
pub mod FillingLemmas
pub mod SqueezeLemmas
pub mod TrimLemmas
pub mod ValueLemmas
