pub mod SoFarLemmas
