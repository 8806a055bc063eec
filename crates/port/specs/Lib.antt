pub mod Configs
pub mod Courses
pub mod Misroutes
pub mod Steps
pub mod Reports
pub mod Turns
pub mod Blocked
pub mod Wants
