-- In a guarded fabric an event leaves the domains that it is foreign to as they were.
pub mod Owning
pub mod Sparing
pub mod SparedMoves
pub mod SparedEnds
pub mod Legal
pub mod Refusing
pub mod Apart
