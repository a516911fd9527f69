pub mod Apart
pub mod Blind
pub mod Laws
pub mod Own
pub mod Prices
pub mod Seen
pub mod Views
