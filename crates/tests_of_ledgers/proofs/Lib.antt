pub mod Scenes
pub mod Requests
