pub mod Rising
pub mod Contents
pub mod Grouping
pub mod Indexing
pub mod Membership
