pub mod Additions
pub mod Pages
pub mod Memory
pub mod PageLends
pub mod MemoryLends
