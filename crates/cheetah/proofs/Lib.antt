pub mod Completed
pub mod Considered
pub mod Meanings
pub mod Planned
