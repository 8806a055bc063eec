pub mod Classes
pub mod Leaving
