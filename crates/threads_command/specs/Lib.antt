pub mod Asking
pub mod Begins
pub mod Counted
pub mod Refusals
pub mod Threads
