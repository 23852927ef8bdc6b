pub mod Completion
pub mod Machine
pub mod Parsing
pub mod Refusal
