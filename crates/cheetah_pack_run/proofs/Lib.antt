pub mod Said
pub mod Runs
pub mod Joined
