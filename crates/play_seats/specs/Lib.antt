pub mod Laws
pub mod Lendings
pub mod Links
pub mod Makers
pub mod Passes
pub mod Seated
pub mod Sim
