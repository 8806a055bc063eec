pub mod Received
pub mod Receivers
