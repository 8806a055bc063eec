pub mod Found
pub mod Injected
pub mod Sent
pub mod Strung
pub mod Taken
pub mod WorkerSent
