pub mod Obeyed
pub mod Spelled
pub mod Standing
pub mod Tallies
