pub mod HostAccesses
pub mod State
pub mod Flights
pub mod Tags
pub mod RegisterPages
pub mod Closings
pub mod Ends
pub mod Contents
