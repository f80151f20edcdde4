-- What contracts of private functions say; a reader of the public contracts needs none of it.
pub mod Sorting
pub mod Best
pub mod Kept
pub mod Copied
