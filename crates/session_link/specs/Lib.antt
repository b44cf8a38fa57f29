-- Which ends a session begins with.
pub mod Links
