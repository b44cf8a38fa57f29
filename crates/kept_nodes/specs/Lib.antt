-- Nodes whose metadata is on stable storage: what its file says at each moment, and what a stop leaves of it.
pub mod Left
pub mod Filed
pub mod Kept
pub mod Asked
pub mod Recorded
pub mod Again
pub mod Leaving
pub mod Shown
