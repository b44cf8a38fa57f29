mod Completions
pub mod Lawful
