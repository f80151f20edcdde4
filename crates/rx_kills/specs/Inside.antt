pub mod Front
pub mod Noted
