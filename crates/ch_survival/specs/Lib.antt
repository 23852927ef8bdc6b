pub mod Given
pub mod InRange
pub mod Asked
pub mod Worked
