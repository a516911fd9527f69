pub mod Complaints
pub mod Inputs
pub mod Program
pub mod Statuses
pub mod Words
