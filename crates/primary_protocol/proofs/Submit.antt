-- A primary accepts a write, over a stream that stands or without a connection.
pub mod Alone
pub mod Entries
pub mod Extents
pub mod Linked
pub mod NewWrite
pub mod Submits
