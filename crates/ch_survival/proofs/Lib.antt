pub mod Sending
pub mod Starts
pub mod Survives
pub mod WorkedFilter
