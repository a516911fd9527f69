-- What the crate's private contracts alone cite: the rule of the table, and what each step on it tells.
pub mod Rest
pub mod Rule
pub mod Steps
pub mod Sums
pub mod Taken
