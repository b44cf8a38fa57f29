-- Lists: what stands where, what tests pick, what begins what.
pub mod Beginnings
pub mod Each
pub mod Elements
pub mod Fronts
pub mod Last
pub mod Once
pub mod Pairs
pub mod Picks
pub mod Tests
