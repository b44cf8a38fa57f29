pub mod Below
pub mod Lists
pub mod Bits
pub mod Counted
pub mod AllMarked
