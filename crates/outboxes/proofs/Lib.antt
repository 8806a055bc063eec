pub mod Boxes
pub mod Changing
pub mod FullBoxes
pub mod Indexed
pub mod Starting
pub mod Noting
