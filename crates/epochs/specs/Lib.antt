pub mod Epochs
pub mod Fields
pub mod Streams
