pub mod Needs
pub mod Ranged
pub mod Policy
pub mod Kinds
pub mod Worked
