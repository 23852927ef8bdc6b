pub mod Kept
pub mod Lines
pub mod Group
pub mod Having
