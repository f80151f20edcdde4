pub mod Outside
pub mod Memory
pub mod Sets
pub mod Lists
pub mod Rows
pub mod Few
pub mod Batches
