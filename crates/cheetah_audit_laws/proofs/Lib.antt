pub mod Kept
pub mod Ready
pub mod Coming
pub mod Named
pub mod Listed
pub mod Large
pub mod Worded
pub mod Called
