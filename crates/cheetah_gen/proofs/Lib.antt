pub mod Answerable
pub mod Given
pub mod Inner
pub mod Meanings
pub mod Statuses
