pub mod Paths
pub mod Chains
pub mod Examples
pub mod Inside
