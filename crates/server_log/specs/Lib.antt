-- The lines of a server's log.
pub mod Bars
pub mod Events
pub mod Lines
