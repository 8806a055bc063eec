pub mod Lanes
pub mod Queues
