-- A primary closes its end, by a call or as it refuses a frame.
pub mod Closes
pub mod Closing
pub mod Refusing
