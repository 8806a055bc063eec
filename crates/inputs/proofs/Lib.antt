pub mod Faults
pub mod Owning
