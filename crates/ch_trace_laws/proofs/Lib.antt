pub mod Bytes
pub mod Packets
pub mod Epochs
pub mod Steps
pub mod Drains
pub mod Arrivals
pub mod Readable
