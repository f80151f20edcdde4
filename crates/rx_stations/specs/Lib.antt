pub mod Stations
pub mod Closed
