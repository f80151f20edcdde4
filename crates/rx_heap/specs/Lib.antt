pub mod Region
pub mod Inside
