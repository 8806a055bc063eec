pub mod Lines
pub mod Dumps
pub mod Reading
pub mod Spaces
pub mod Headers
pub mod Capabilities
pub mod Acs
pub mod Bars
