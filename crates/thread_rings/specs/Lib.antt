pub mod Moved
pub mod Names
pub mod Returned
pub mod Wired
