pub mod Result
pub mod Words
