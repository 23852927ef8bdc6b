pub mod Depths
pub mod Given
pub mod Within
