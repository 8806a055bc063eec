pub mod Everywhere
pub mod Inserted
pub mod Listed
pub mod Noting
pub mod Visiting
