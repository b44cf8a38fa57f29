pub mod Writes
pub mod Entries
pub mod OwnWrites
pub mod Telling
pub mod Settling
pub mod Standing
pub mod Seeing
