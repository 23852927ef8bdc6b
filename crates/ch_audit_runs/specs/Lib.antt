pub mod Arrivals
pub mod Walking
pub mod Checking
