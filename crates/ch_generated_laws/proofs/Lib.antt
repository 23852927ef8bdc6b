pub mod Binding
pub mod Queries
pub mod Ranges
pub mod Records
pub mod Schedules
pub mod Sizes
pub mod Tables
