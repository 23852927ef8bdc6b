pub mod Runs
pub mod Result
