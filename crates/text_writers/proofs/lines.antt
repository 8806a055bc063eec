-- How the lines of a layout are written, apart from how they are read: each is read back.
pub mod Digits
pub mod LinesRead
pub mod Lines
pub mod WrittenLines
pub mod ReadRanges
pub mod LinesInRange
