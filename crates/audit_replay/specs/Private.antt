-- What the crate's private contracts alone cite: how two ops are compared, what a call does to a pass, and how far a
-- text was compared.
pub mod Calls
pub mod Comparing
pub mod Ops
