pub mod Counter
pub mod Kinds
pub mod Limits
pub mod Totals
