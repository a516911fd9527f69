pub mod Hidden
pub mod Migration
pub mod Once
