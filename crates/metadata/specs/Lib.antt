-- What a metadata file says, what the calls of a file do, and what each call of the metadata changes.
pub mod Calls
pub mod Events
pub mod Words
pub mod Judged
pub mod Says
pub mod Steps
pub mod State
pub mod Files
pub mod FileLaws
