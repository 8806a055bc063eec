pub mod Filling
pub mod Running
pub mod Accessing
pub mod FirstPage
pub mod Fixed
pub mod LowestTag
pub mod Kept
pub mod FirstPlaces
pub mod Numbers
pub mod LineTags
pub mod OneNumber
mod Examples
