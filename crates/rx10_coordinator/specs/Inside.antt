pub mod Logging
pub mod Desk
