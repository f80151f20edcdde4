pub mod InOrder
pub mod Ascending
pub mod Rising
