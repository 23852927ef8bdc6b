pub mod Epochs
pub mod Splits
pub mod Sent
pub mod Left
pub mod Begins
