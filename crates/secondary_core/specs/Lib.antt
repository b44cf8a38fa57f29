pub mod Answers
pub mod Connections
pub mod Inboxes
pub mod Items
pub mod Outboxes
pub mod Receiving
pub mod State
