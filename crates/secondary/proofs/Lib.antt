pub mod Answers
pub mod Applies
pub mod Kept
pub mod Opens
pub mod Sends
pub mod Takes
