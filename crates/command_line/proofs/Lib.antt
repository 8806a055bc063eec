pub mod Asking
pub mod CommandWords
