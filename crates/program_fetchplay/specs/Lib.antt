pub mod Program
pub mod Statuses
pub mod Streams
pub mod Terms
pub mod Words
