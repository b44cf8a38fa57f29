pub mod Events
pub mod Openings
pub mod Reading
pub mod Replies
pub mod Running
pub mod State
