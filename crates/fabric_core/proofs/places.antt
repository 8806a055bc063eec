-- In a guarded fabric no packet is lost or doubled.
pub mod Named
pub mod Once
pub mod OnePlace
pub mod Partition
