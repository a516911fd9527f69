pub mod TextLemmas
pub mod HopLemmas
pub mod ReplyLemmas
