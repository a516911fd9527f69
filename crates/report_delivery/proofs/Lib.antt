pub mod BodyLemmas
pub mod DeliveryLemmas
