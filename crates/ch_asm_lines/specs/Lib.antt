pub mod Spelling
pub mod Range
pub mod Numbers
pub mod Reading
pub mod Lent
