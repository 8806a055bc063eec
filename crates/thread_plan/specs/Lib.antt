pub mod Workers
pub mod Routes
pub mod Plans
pub mod Nodes
