pub mod Callers
pub mod Log
pub mod Stands
