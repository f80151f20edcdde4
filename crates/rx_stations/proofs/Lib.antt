pub mod Stationing
pub mod Crosses
