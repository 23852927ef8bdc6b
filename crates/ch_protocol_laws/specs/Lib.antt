pub mod Always
pub mod Settled
