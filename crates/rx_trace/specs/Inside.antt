-- What contracts of private functions say; a reader of the public contracts needs none of it.
pub mod EntryWords
pub mod EventWords
pub mod Machine
pub mod Stages
