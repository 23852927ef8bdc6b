pub mod Commands
pub mod Promised
pub mod Readings
pub mod Verdicts
