-- What private contracts alone cite: seats in rows.
pub mod Rows
