pub mod Bytes
pub mod Id
pub mod Controls
pub mod Faults
pub mod Origins
pub mod Texts
pub mod PacketBytes
