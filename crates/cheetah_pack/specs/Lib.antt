pub mod Reading
pub mod Planning
