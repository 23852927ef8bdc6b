pub mod Commas
pub mod Rows
