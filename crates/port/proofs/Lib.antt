pub mod OneLane
pub mod Own
pub mod Stopping
pub mod Wanting
