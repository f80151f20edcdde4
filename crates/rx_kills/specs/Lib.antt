pub mod Words
pub mod Least
pub mod Inside
pub mod Deaths
