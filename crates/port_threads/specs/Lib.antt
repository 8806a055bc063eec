pub mod Building
pub mod Fabrics
pub mod Kept
pub mod Left
pub mod Stops
