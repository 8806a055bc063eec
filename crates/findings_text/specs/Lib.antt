pub mod Idle
pub mod Linux
pub mod RemarkViews
pub mod Remarks
pub mod Summary
pub mod Tree
pub mod Witnesses
