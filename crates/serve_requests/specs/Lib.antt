-- What a request writes and reads, how its reply is spelled, when its data are on stable storage, and how long a client may take for its
-- replies.
pub mod Places
pub mod Receipts
pub mod Reads
pub mod Extents
pub mod Told
pub mod RequestUnderWay
pub mod Ended
pub mod Answered
pub mod Rounds
pub mod Stored
pub mod Answer
pub mod Reading
pub mod Portions
pub mod Pace
