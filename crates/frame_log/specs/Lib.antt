pub mod Descriptor
pub mod Rows
pub mod Words
pub mod Faults
