pub mod Given
pub mod InMemory
pub mod Result
