-- A primary by itself: its moves, and what every run of it keeps.
pub mod Ends
pub mod ExtentsMoves
pub mod FirstStreams
pub mod Faithful
pub mod Homes
pub mod HomesFollowing
pub mod HomesMoves
pub mod Journal
pub mod LastEpoch
pub mod LastOpen
pub mod LawfulMoves
pub mod Met
pub mod Moves
pub mod WriteConnections
pub mod Sendable
pub mod StaysClosed
pub mod Writes
