pub mod Numbers
pub mod KillPlans
pub mod Joins
pub mod Moments
pub mod Onward
pub mod Parts
pub mod Proper
pub mod Values
