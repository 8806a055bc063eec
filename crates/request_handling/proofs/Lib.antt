pub mod Places
pub mod Choices
pub mod WellMadeLemmas
pub mod Addressed
pub mod PastPort
pub mod Discarding
pub mod Suiting
