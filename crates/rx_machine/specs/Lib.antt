pub mod Seeds
pub mod Slots
pub mod Picking
pub mod Holds
pub mod Refusals
pub mod Runs
pub mod Inside
