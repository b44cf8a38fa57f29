pub mod Holdings
pub mod Maps
