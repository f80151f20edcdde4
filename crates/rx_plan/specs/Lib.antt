pub mod Plans
pub mod Inside
