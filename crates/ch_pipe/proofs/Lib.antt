pub mod Agree
pub mod Whole
pub mod Follow
pub mod Rooms
pub mod Steps
pub mod Ready
pub mod Cuts
pub mod Accessed
