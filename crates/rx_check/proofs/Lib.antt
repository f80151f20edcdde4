pub mod Causes
pub mod Lawful
pub mod Few
pub mod Safe
pub mod Stepping
pub mod Coming
mod Blocks
mod Capping
pub mod Exprs
mod Going
pub mod Judging
pub mod OneTree
mod Statements
mod Waiting
pub mod Worked
