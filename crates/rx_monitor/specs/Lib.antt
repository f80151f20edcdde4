pub mod Boards
pub mod Sums
pub mod Inside
pub mod Text
