pub mod Counting
pub mod Distances
pub mod Freeing
pub mod Standing
