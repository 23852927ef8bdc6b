pub mod Total
pub mod Entry
pub mod Flat
pub mod Stages
pub mod Step
pub mod Installed
