-- What a settlement finds; and what a session leaves, and what the next one starts from.
pub mod Reads
pub mod Settled
pub mod Next
pub mod Left
