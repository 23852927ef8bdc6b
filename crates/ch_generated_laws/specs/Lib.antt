pub mod Queries
pub mod Sizes
pub mod Steps
pub mod Tables
