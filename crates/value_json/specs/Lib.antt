pub mod Gives
pub mod Keys
pub mod Private
pub mod Reading
pub mod Trees
