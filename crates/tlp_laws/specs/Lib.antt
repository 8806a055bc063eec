pub mod Causes
pub mod Coverage
