pub mod PageFits
pub mod FlightLemmas
