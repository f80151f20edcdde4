pub mod Places
pub mod Faults
pub mod Writing
pub mod Inside
pub mod Programs
