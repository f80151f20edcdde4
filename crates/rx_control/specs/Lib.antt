pub mod Levels
pub mod Stands
pub mod Seeds
pub mod Bound
pub mod Inside
