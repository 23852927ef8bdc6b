pub mod Ranged
pub mod Configured
pub mod Asked
pub mod Ends
