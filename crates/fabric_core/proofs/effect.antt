-- What the calls of a fabric do is what `effect` says of each event.
pub mod Answered
pub mod MisroutedAnswers
pub mod Courses
pub mod Outputs
pub mod Room
pub mod Over
pub mod Taking
pub mod Settled
pub mod Turns
pub mod Passages
pub mod Misrouted
pub mod Numbers
pub mod QuietStations
pub mod Waiting
