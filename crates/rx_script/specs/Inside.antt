-- What contracts of private functions say; a reader of the public contracts needs none of it.
pub mod Readers
pub mod Exprs
pub mod Items
pub mod Machine
pub mod Pieces
pub mod Turns
pub mod Parts
pub mod Unwritten
pub mod Arena
