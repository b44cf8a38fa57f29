-- The order in which a primary releases writes that share a block, and what a release clears, whatever frames it takes.
pub mod Cleared
pub mod InOrder
pub mod InOrderMoves
pub mod Runs
