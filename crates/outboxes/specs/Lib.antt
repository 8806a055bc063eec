pub mod Outboxes
pub mod BoxIndexes
pub mod OriginIndexes
