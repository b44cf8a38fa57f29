pub mod Contents
pub mod Faults
pub mod Identifiers
pub mod Images
pub mod Numbered
pub mod Positions
pub mod Ranges
pub mod SettingsRange
