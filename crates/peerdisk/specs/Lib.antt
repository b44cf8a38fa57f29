pub mod Stamped
pub mod Blocks
pub mod Items
pub mod Pending
pub mod Slots
