pub mod Lines
pub mod Numbering
pub mod Order
pub mod Reporting
pub mod Watching
