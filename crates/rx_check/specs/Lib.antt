pub mod Rules
pub mod Checked
pub mod Defined
pub mod Inside
