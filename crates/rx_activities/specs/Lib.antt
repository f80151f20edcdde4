pub mod Knowing
pub mod Starting
pub mod Turning
pub mod Inside
