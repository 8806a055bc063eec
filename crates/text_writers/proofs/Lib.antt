pub mod drafts
pub mod lines
pub mod layouts
pub mod scripts
