pub mod Nesting
pub mod Bounds
pub mod Parting
pub mod Examples
pub mod Refused
pub mod TwoWays
