pub mod Calls
pub mod State
pub mod Usages
pub mod Work
