pub mod Considered
pub mod Planning
pub mod Reading
