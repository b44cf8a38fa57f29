pub mod Primaries
pub mod Queries
pub mod Secondaries
pub mod Traffic
