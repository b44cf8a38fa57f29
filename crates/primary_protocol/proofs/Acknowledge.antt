-- A primary takes a frame: its peer's hello, or an acknowledgement of a write, of a block or of an epoch.
pub mod AcceptedFrame
pub mod AwaitedBlock
pub mod AwaitedWrite
pub mod BarrierTurns
pub mod BlockAcknowledged
pub mod Blocks
pub mod EpochAcknowledged
pub mod Takes
pub mod WriteAnswered
pub mod Writes
