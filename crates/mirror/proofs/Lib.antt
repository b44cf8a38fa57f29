pub mod Copies
pub mod Opens
pub mod Runs
