pub mod Documents
pub mod Play
pub mod Private
pub mod Runs
pub mod Traces
pub mod Words
