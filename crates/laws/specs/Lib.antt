pub mod Statements
pub mod Reflections
pub mod Examples
