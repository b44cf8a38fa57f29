-- A resync reads its next block, or the local disk fails that.
pub mod NextBlock
pub mod Resyncs
