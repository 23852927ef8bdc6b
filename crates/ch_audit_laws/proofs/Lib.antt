pub mod Own
pub mod Same
pub mod Walks
pub mod Traces
pub mod Told
