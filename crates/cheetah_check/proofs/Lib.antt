pub mod Considered
pub mod Meanings
pub mod Misspellings
pub mod Short
pub mod Usages
