pub mod Program
pub mod Scenarios
pub mod Statuses
pub mod Text
pub mod Words
