pub mod Bits
pub mod Packets
pub mod Worker
pub mod Master
