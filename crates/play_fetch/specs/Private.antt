-- What private contracts alone cite: one act of a fetch.
pub mod Going
