pub mod Guarded
pub mod Sound
pub mod Ways
pub mod Links
pub mod Ends
pub mod FirstPorts
