pub mod Endings
pub mod Files
pub mod Inputs
pub mod Refusals
