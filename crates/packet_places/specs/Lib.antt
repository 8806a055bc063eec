pub mod Standing
pub mod PacketPlaces
pub mod Noted
