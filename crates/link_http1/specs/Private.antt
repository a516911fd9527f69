-- What the crate's private contracts alone cite: what the readers of heads and bodies hold, and where bytes lead them.
pub mod HeadReading
pub mod HeadPushing
pub mod Places
pub mod BodyPlaces
pub mod Lengths
pub mod RequestReading
