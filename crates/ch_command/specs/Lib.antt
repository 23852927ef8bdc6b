pub mod Call
pub mod Command
pub mod Lines
pub mod Reading
pub mod Status
pub mod Verdict
