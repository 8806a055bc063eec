pub mod Running
pub mod Isolating
pub mod Settling
pub mod Owning
pub mod Faults
pub mod Reading
pub mod ScriptFiles
