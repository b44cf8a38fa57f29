-- How a server begins over the metadata that it finds.
pub mod Starts
pub mod Opening
