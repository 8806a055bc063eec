pub mod Building
pub mod Kept
pub mod Marks
pub mod Origins
pub mod Roles
pub mod Seats
pub mod Sides
pub mod Watched
