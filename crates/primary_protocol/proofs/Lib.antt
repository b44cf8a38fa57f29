-- That each transition of a primary is its step, by the event. Lowest first: a file cites those of its own folder and of the
-- folders before it.
pub mod Common
pub mod Connect
pub mod Submit
pub mod LocalDisk
pub mod Send
pub mod Resync
pub mod Close
pub mod Acknowledge
pub mod Receipts
pub mod Node
