pub mod PageSteps
pub mod FreeSteps
pub mod Naming
pub mod Printed
pub mod PartByPart
