pub mod Grammar
pub mod HeadSteps
pub mod Keyword
pub mod TailSteps
pub mod Tokens
pub mod Tree
