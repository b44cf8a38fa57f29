pub mod Core
pub mod Leaves
pub mod Node
pub mod Steps
