pub mod Seats
pub mod Telling
pub mod Stands
pub mod Waiters
pub mod Parking
pub mod Inside
