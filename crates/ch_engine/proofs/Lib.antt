pub mod Meeting
pub mod Sending
pub mod Receiving
pub mod Learning
pub mod Restarting
pub mod Starting
