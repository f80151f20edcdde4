pub mod Kept
pub mod Answers
pub mod Table
pub mod Asks
pub mod Kepts
pub mod Asked
