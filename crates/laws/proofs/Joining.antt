-- A primary and a secondary whose frames are joined.
pub mod Acknowledging
pub mod Agreeing
pub mod Ends
pub mod HonestEnds
pub mod OpeningDisks
pub mod Openings
pub mod Promises
pub mod Receiving
pub mod Settlement
pub mod SureApplied
pub mod Taking
