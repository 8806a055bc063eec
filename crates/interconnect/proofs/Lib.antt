pub mod Reaching
pub mod Starting
pub mod Keeping
pub mod Passing
pub mod Turning
pub mod Room
pub mod Waiting
