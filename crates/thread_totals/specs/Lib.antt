pub mod Balance
pub mod Begins
pub mod Counts
pub mod Crossing
pub mod Named
pub mod Standing
