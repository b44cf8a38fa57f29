-- Over which link a server's sessions go, and what a server comes to.
pub mod Links
pub mod Served
