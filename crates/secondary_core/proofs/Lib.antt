pub mod Barriers
pub mod Checks
pub mod Counted
pub mod Kept
pub mod Places
