-- Every event keeps what every fabric keeps: each packet in flight stands in one place, with the head that its bytes give.
pub mod Changing
pub mod Standing
pub mod Flying
pub mod Placing
pub mod Settling
pub mod Renewing
pub mod Moving
pub mod Beginning
pub mod AlienEntries
pub mod Concluding
pub mod Turning
pub mod Passing
pub mod Keeping
pub mod Starting
