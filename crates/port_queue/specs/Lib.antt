pub mod Arrivals
pub mod PerClass
pub mod EligibleClasses
pub mod Lending
pub mod Outgoing
pub mod Queue
pub mod Renumbering
pub mod Room
