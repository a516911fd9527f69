pub mod Making
pub mod Loading
pub mod Heads
pub mod Words
