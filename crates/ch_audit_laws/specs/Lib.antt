pub mod Own
pub mod Said
pub mod Walks
