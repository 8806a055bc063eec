pub mod Nodes
pub mod Links
pub mod Places
pub mod FirstIndexes
pub mod Topologies
