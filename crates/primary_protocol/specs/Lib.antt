pub mod Core
pub mod Leaves
pub mod Node
pub mod Rows
pub mod Steps
pub mod Taking
pub mod Transitions
