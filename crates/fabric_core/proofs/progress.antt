-- Where no event moves anything, no packet is left anywhere.
pub mod Classes
pub mod Senders
pub mod Starts
pub mod GoodStarts
pub mod Costs
pub mod Leads
pub mod Takers
pub mod Ports
pub mod Tree
pub mod Homes
pub mod Misroutes
pub mod MisroutedEnds
pub mod Drained
pub mod InFlight
pub mod NewFabrics
pub mod Elsewhere
pub mod Stations
