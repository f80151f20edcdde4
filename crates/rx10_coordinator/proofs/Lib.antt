pub mod Cutting
pub mod Going
pub mod Logging
pub mod Serving
