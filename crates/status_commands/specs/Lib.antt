pub mod Awaited
pub mod DrbdWords
pub mod Ends
