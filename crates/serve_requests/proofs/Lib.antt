-- What a request's receipts are, the writes for its places, requests of which nothing was begun, those that have ended, and what a caller was
-- told.
pub mod Answering
pub mod Appending
pub mod Beginning
pub mod Counting
pub mod Fronts
pub mod InPortions
pub mod Portions
pub mod Spelled
pub mod Telling
