pub mod Faults
pub mod Joinings
pub mod Meanings
