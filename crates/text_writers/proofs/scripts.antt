-- How a script is written, apart from how it is read: each is read back.
pub mod CommandsRead
pub mod ScriptsRead
pub mod CommandsInRange
pub mod ScriptsInRange
