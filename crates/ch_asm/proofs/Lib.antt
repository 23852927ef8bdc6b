pub mod Texts
pub mod Places
pub mod Walks
pub mod Refusals
pub mod BadLines
pub mod Reading
pub mod Decided
