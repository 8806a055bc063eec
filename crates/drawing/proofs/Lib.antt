pub mod Classes
pub mod Counting
pub mod Lists
pub mod Within
