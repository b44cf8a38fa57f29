pub mod Progress
pub mod StatusWords
