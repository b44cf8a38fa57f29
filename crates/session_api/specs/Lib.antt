-- What callers of a half see, and what a session starts from.
pub mod Begun
pub mod Opening
