pub mod Words
pub mod Moments
pub mod Commands
pub mod Proper
pub mod Inside
