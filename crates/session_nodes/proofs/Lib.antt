pub mod Answers
pub mod Connections
pub mod Ends
pub mod Primaries
pub mod Secondaries
