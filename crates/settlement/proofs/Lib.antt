-- How two nodes at rest settle; and what they leave when they are brought together.
pub mod Comparing
pub mod Settling
pub mod Openings
pub mod Reading
pub mod Sized
pub mod Leaving
pub mod Alike
pub mod Handing
pub mod Every
