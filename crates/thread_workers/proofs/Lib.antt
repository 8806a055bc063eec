pub mod Begins
pub mod Rooms
pub mod Growing
