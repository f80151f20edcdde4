pub mod Gone
pub mod Allowed
pub mod Unstruck
pub mod Worked
