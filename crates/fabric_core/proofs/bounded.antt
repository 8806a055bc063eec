-- On every direction of a link what travels and waits is bounded by credits, whatever happens.
pub mod Steps
pub mod Directions
pub mod Bounding
pub mod AtStart
