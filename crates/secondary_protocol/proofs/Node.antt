-- A node's calls are steps of its histories, by the rooms of a secondary.
pub mod Apart
pub mod Applies
pub mod Calls
pub mod Disk
pub mod Due
pub mod Faults
pub mod Grows
pub mod Hello
pub mod Laid
pub mod Numbers
pub mod Runs
pub mod Sized
