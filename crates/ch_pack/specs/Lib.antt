pub mod Small
pub mod Plans
pub mod Worked
