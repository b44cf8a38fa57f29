-- The blocks of a disk: the last item that touches one, and what layers leave there.
pub mod Latest
pub mod LatestMoves
pub mod LatestPlaces
pub mod Overlays
pub mod Ranges
pub mod SameBlocks
