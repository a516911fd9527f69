-- What private contracts alone cite: one act without the network.
pub mod Acts
