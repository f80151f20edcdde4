pub mod Live
pub mod Top
pub mod Outcomes
pub mod Refusals
pub mod Inside
