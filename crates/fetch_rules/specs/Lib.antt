pub mod Blocking
pub mod KnownHosts
pub mod Policies
pub mod Switch
pub mod Upgrading
pub mod Questions
pub mod Referrers
