-- What sessions start from and leave, and what is printed at the end.
pub mod Ends
pub mod Sessions
