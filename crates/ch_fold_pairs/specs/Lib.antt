pub mod Places
pub mod Lines
pub mod Pairs
pub mod Semi
pub mod Join
