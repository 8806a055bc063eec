pub mod Placed
pub mod Seated
