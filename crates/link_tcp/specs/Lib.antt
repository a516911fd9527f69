pub mod Routes
pub mod TcpAccepts
pub mod TcpLink
