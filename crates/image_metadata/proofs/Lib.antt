-- Why what is marked is copied.
pub mod Turning
