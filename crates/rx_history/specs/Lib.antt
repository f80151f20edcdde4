pub mod KillOrder
pub mod JoinOrder
pub mod Setups
pub mod Logs
pub mod Events
pub mod Next
