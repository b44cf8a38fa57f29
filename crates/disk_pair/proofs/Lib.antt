-- When two disks are alike, and which blocks are marked where they differ.
pub mod Alike
pub mod Comparing
pub mod Marking
