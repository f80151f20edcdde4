pub mod Posts
pub mod Passes
pub mod Once
