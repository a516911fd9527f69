pub mod Machine
pub mod Ready
