pub mod Bad
pub mod Usages
