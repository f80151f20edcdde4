pub mod HoleLists
pub mod Finding
pub mod Cutting
pub mod Joining
pub mod Placing
pub mod Laying
