pub mod Stepping
pub mod Answered
pub mod Sending
pub mod Births
