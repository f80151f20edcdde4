pub mod Releases
pub mod Once
pub mod Examples
pub mod Ordered
