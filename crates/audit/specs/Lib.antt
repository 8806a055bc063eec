pub mod Settings
pub mod Harms
pub mod Landing
pub mod Telling
