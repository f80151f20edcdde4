-- What contracts of private functions say; a reader of the public contracts needs none of it.
pub mod ShownLists
pub mod OneShots
pub mod Pages
pub mod Ties
pub mod Holding
