-- Why a stop at any moment leaves a sound opening.
pub mod CurrentIdentifier
pub mod Covering
pub mod Growing
pub mod Events
pub mod Frames
pub mod Closed
pub mod InFlight
pub mod Unparted
pub mod Stopping
pub mod Alone
pub mod Returning
pub mod Premises
