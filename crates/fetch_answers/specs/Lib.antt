pub mod Bodies
pub mod Endings
pub mod Following
pub mod Judging
pub mod Laws
pub mod Redirects
pub mod Words
