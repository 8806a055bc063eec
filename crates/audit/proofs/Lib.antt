pub mod Guarded
pub mod Lists
pub mod Trials
