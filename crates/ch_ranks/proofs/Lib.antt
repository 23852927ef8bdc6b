pub mod Ascending
pub mod Ranked
pub mod Sorts
