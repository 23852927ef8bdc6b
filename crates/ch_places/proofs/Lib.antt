pub mod Kept
pub mod Fits
pub mod Few
pub mod Counted
