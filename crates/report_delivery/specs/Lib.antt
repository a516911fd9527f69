pub mod Delivering
pub mod Laws
pub mod Private
pub mod Reporting
pub mod Reports
pub mod Words
