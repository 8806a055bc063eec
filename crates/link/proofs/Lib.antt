pub mod Totals
pub mod Fullness
pub mod Credits
pub mod Keeping
pub mod Moving
pub mod Quiet
pub mod Stepping
