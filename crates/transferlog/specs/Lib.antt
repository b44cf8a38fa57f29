pub mod Fields
pub mod LastWrites
pub mod Log
pub mod Recent
pub mod Ring
pub mod Slots
pub mod Writes
