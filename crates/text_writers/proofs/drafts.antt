-- A layout that is made line by line, with comments.
pub mod Grown
pub mod Added
pub mod Hex
pub mod Begins
pub mod Joined
