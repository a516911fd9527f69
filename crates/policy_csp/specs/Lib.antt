pub mod Directives
pub mod Laws
pub mod Reading
pub mod SourceLists
pub mod Violations
pub mod Private
