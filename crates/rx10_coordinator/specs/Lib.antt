pub mod Words
pub mod Serving
pub mod Log
pub mod Inside
