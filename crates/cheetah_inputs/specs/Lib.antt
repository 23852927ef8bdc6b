pub mod Inputs
pub mod Limits
pub mod Messages
pub mod Parts
pub mod Question
pub mod Refusals
pub mod Tables
pub mod Shared
