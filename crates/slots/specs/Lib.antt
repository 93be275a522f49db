pub mod Listings
pub mod Replicas
pub mod TableHeaders
