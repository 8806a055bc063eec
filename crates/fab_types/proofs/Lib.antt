pub mod Origins
pub mod ArrayMemory
pub mod Taking
