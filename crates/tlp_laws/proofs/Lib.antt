pub mod Firsts
pub mod Leasts
pub mod Choices
pub mod Apart
pub mod Covered
