pub mod Fold
pub mod Received
