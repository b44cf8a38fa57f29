pub mod Handshake
pub mod Hello
