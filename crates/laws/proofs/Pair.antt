-- The pair: its runs are runs of two nodes that are joined.
pub mod CallRefusals
pub mod Honest
pub mod Links
pub mod LostConnections
pub mod Primary
pub mod Refused
pub mod RefusedFrames
pub mod Runs
pub mod Secondary
