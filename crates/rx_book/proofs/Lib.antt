pub mod Latches
pub mod Masks
pub mod Or
pub mod Numbers
pub mod History
pub mod Replay
pub mod Keeps
pub mod Calls
