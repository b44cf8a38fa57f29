pub mod Calls
pub mod Given
pub mod Receipts
pub mod State
pub mod Work
