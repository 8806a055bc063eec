pub mod Rings
pub mod Counted
pub mod Begins
pub mod Records
pub mod Asks
pub mod Injectors
pub mod Serves
