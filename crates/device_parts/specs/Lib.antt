-- Places of a device and the bytes for them.
pub mod Places
