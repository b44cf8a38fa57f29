-- Why the metadata of a node says what a stop of it leaves.
pub mod Losing
pub mod Turning
pub mod Covering
pub mod Working
pub mod Filed
pub mod Writing
pub mod Again
pub mod Extents
pub mod StillCovering
pub mod Saving
