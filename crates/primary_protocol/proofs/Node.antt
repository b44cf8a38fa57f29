-- A primary's node: what is read off it, its disk, and its calls as steps of its histories.
pub mod Asked
pub mod Calls
pub mod Counts
pub mod Disk
pub mod Disks
pub mod Due
pub mod Faults
pub mod Keeps
pub mod Pushed
pub mod Receipts
pub mod Runs
pub mod Says
pub mod Sends
pub mod Stopped
pub mod Takes
pub mod Unanswered
pub mod Writing
