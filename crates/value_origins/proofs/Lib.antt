pub mod AddressLemmas
pub mod LabelLemmas
pub mod SerializationLemmas
