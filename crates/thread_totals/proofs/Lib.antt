pub mod Balanced
pub mod Consumed
pub mod Crossed
pub mod Naming
