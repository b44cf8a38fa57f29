-- What the first session starts from, and what holds of the receipts of a session's work.
pub mod Marking
pub mod Working
