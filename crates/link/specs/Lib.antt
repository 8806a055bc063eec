pub mod Channels
pub mod Ends
pub mod Quiet
pub mod Simplexes
pub mod Steps
