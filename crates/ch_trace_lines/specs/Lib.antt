pub mod Fates
pub mod Fields
pub mod Spelling
pub mod Range
pub mod Reading
pub mod Trace
pub mod Worked
