pub mod StoreCalls
pub mod Scripts
pub mod Entries
pub mod Events
mod Deep
pub mod Few
pub mod Telling
pub mod Parting
pub mod MakerRows
pub mod MakersRows
pub mod ChainRows
pub mod FullRows
pub mod Refusals
pub mod TwoWays
