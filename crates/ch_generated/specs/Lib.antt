pub mod Draws
pub mod Inputs
pub mod Request
pub mod ScheduleText
pub mod TableText
