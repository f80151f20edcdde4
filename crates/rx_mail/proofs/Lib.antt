pub mod Posting
pub mod Draining
pub mod Onced
