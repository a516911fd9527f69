-- What the crate's private contracts alone cite: reports that are delivered from seats.
pub mod Delivered
