pub mod Added
mod Pairs
