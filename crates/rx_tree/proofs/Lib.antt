pub mod Falling
pub mod Firsts
pub mod Inside
pub mod Leaves
pub mod Nested
pub mod Places
pub mod Replies
pub mod Strikes
