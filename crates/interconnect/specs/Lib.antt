pub mod Views
pub mod Moves
pub mod Quiet
pub mod Starts
pub mod Kept
pub mod Passes
pub mod Misrouted
pub mod Waits
