pub mod Lists
pub mod Among
pub mod Lowest
pub mod Tied
