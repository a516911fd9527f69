pub mod Private
pub mod Reading
pub mod Served
pub mod Serving
pub mod Tables
