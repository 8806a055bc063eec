pub mod Dealt
pub mod Flows
pub mod Numbered
pub mod Undone
pub mod Used
pub mod Shares
