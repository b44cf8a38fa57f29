pub mod Buffers
pub mod Cutting
pub mod Tearing
pub mod Written
pub mod ZeroRuns
