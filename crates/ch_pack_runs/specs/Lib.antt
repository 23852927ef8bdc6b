pub mod Cleared
pub mod Runs
