pub mod Activity
pub mod Entries
