-- A secondary by itself: its moves, and what every run of it keeps.
pub mod Applied
pub mod Chained
pub mod Drained
pub mod Fits
pub mod Good
pub mod InTurn
pub mod Moves
pub mod Numbers
pub mod Orderly
pub mod OrderlyRuns
pub mod OrderlyTaking
pub mod Runs
pub mod Sound
pub mod Stays
pub mod TrueAnswers
pub mod TrueBarriers
pub mod Tuples
