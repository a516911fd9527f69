pub mod Field
pub mod Grammar
pub mod Hosts
pub mod Private
pub mod Reading
