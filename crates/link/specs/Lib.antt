pub mod Directions
pub mod Ends
pub mod Past
pub mod Taking
