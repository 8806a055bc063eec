pub mod Buses
pub mod Comments
pub mod Groups
