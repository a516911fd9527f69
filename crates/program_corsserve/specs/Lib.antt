pub mod Complaints
pub mod Connections
pub mod Private
pub mod Program
