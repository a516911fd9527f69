-- What the crate's private contracts alone cite: how a link in memory keeps what it was asked.
pub mod KeptAsks
