pub mod Beginnings
pub mod ShownLists
pub mod OneShots
pub mod Ties
pub mod Looks
pub mod Holds
pub mod Watches
pub mod Tells
mod Places
