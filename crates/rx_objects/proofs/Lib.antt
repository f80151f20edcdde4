pub mod Lines
pub mod Staying
pub mod Stepping
pub mod Noting
pub mod Leaving
pub mod Places
pub mod Fitting
pub mod Named
pub mod Host
pub mod Begins
pub mod Ending
mod LedgerClosed
pub mod Crosses
pub mod Scene
pub mod Dying
pub mod Shows
