-- How numbers and exit statuses are spelled, the names of servers, the bytes of the result lines, and the version.
pub mod Names
pub mod Numbers
pub mod Statuses
pub mod Text
pub mod Version
