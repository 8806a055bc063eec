pub mod OwnerLemmas
pub mod Bools
pub mod Noted
pub mod Led
