pub mod Adding
pub mod Answering
pub mod CountedParts
pub mod Finding
pub mod Lines
