pub mod Sweeps
pub mod Asleep
pub mod Swept
pub mod Sleepers
pub mod Waking
