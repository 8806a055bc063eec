pub mod Text
pub mod Words
pub mod Bytes
pub mod Answers
pub mod Reading
