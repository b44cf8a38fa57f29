-- Theorems over the definitions of a primary, of a secondary and of the pair. Lowest first: a file cites those of its own folder
-- and of the folders before it.
pub mod Lists
pub mod Blocks
pub mod Streams
pub mod Rules
pub mod Primary
pub mod Tracked
pub mod Releases
pub mod Accounted
pub mod Secondary
pub mod Joining
pub mod Pair
pub mod WriteOrder
pub mod Theorems
