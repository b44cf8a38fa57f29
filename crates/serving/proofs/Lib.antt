-- What sessions leave.
pub mod Ended
pub mod Succeeding
