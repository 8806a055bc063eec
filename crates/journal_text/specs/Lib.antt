pub mod Fields
pub mod Words
pub mod Legible
pub mod Notes
pub mod Reading
pub mod Journals
pub mod Steps
