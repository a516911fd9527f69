pub mod Accounts
pub mod Book
pub mod Entries
pub mod Ops
pub mod Past
pub mod Private
pub mod Solo
