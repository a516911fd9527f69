-- What the crate's private contracts alone cite.
pub mod Bodies
pub mod Paths
pub mod Queues
