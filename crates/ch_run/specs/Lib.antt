pub mod Runs
pub mod Asked
pub mod Making
pub mod Outcomes
