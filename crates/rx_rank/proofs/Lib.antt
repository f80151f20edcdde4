pub mod Leaves
pub mod Adding
pub mod Keeping
pub mod Least
