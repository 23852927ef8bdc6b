pub mod Runs
pub mod Begun
pub mod Limits
pub mod Traces
pub mod Considered
