pub mod Carried
pub mod State
pub mod Steps
