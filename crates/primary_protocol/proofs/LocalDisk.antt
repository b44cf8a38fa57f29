-- The local disk does a write, or fails it.
pub mod Faults
pub mod Writes
