pub mod PacketWord
pub mod Commands
pub mod Reading
