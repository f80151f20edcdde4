pub mod Known
pub mod Ends
pub mod Told
pub mod Asking
pub mod Lines
pub mod Outcomes
