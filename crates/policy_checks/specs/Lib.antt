pub mod CorsCheck
pub mod Mixed
pub mod OriginHeader
pub mod PermittedNames
pub mod Ports
pub mod Referrer
pub mod RequestOrigins
pub mod ResourcePolicy
