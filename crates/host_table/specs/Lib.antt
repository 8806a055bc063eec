pub mod Target
pub mod Rising
pub mod Groups
pub mod Index
