pub mod Rows
pub mod Shown
pub mod Filter
pub mod Distinct
pub mod AnswerLines
