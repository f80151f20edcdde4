pub mod Pair
pub mod Cases
pub mod Faults
pub mod Lines
pub mod Answers
pub mod Laws
