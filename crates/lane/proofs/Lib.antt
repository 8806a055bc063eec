pub mod Sorting
pub mod Waiting
