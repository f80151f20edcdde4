-- What contracts of private functions say; a reader of the public contracts needs none of it.
pub mod Opening
pub mod Dying
pub mod Freeing
pub mod Nesting
pub mod Totalling
pub mod Paging
pub mod Slots
pub mod Lending
