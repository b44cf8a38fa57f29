-- What both disks hold, how far they differ, and what a dry run prints.
pub mod Disks
pub mod DryRun
