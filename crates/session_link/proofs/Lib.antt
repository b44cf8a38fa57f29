pub mod Directions
pub mod Joins
