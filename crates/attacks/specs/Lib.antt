pub mod Closings
pub mod Controls
pub mod Findings
pub mod Owners
pub mod Packets
pub mod Paths
pub mod Tries
