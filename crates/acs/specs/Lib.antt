pub mod Block
pub mod Vetting
pub mod Redirection
