-- What a run's threads bring about, and what its session comes to.
pub mod Outcome
pub mod Plan
