pub mod Domains
pub mod Aliens
pub mod DomainsKept
pub mod Indexes
pub mod Agents
pub mod AgentsKept
pub mod AlienPlaces
