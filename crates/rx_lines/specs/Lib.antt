pub mod Lines
pub mod Replies
pub mod Session
pub mod Determined
pub mod Stated
pub mod Inside
