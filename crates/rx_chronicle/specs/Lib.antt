pub mod Told
pub mod Keeping
pub mod Requests
pub mod Noting
pub mod Uncovering
