-- Why a crash loses nothing.
pub mod Moments
pub mod Places
pub mod Kept
pub mod Marks
pub mod Entered
pub mod WordLemmas
pub mod Sealed
pub mod SlotLemmas
pub mod Saved
pub mod Opened
pub mod Replays
pub mod Created
pub mod LaidOut
