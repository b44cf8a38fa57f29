pub mod Calls
pub mod PacketReceiver
pub mod Joined
pub mod Lending
pub mod Meaning
pub mod PacketSender
