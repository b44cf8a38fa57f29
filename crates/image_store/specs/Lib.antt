pub mod Faults
pub mod Syncs
