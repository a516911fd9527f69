pub mod ExchangeLaws
pub mod Exchanges
pub mod Private
pub mod Wires
