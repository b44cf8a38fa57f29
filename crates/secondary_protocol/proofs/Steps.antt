-- Each transition is its step of the model, by the rooms of a secondary.
pub mod Opens
pub mod Peers
pub mod Pushes
pub mod Receives
