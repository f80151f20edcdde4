pub mod Kept
pub mod Plans
pub mod Told
pub mod Requests
