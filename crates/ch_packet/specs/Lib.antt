pub mod Packet
pub mod Spelling
pub mod Fault
pub mod View
