pub mod Process
pub mod Readings
pub mod Traces
pub mod Within
