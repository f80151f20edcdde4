pub mod Left
pub mod Marks
pub mod Order
pub mod Spelling
pub mod Dying
