-- What a caller is told of a write from its acceptance to its receipt.
pub mod Telling
