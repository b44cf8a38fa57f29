-- The items of a stream: their places and epochs, the parts of them that are applied, and lawful streams.
pub mod Barriers
pub mod Lawful
pub mod Parts
pub mod Places
pub mod Sendable
