pub mod Rising
pub mod Zipped
pub mod Parts
pub mod PageMemory
pub mod Placed
pub mod Lending
