pub mod Laws
pub mod Names
pub mod Origins
pub mod Private
pub mod Sites
pub mod Trust
