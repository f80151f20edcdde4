pub mod Positions
pub mod Turns
pub mod Keeping
pub mod Ordering
pub mod Marking
