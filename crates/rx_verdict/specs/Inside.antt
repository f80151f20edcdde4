pub mod Next
pub mod Same
pub mod Replayed
