pub mod Going
pub mod Ran
