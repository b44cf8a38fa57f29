-- A primary sends the next frame that is due.
pub mod Due
pub mod Pushing
pub mod Sends
